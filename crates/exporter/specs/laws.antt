-- The laws of the crate exporter.
pub mod Answers
