-- The specs of the crate exporter.
pub mod Exporter
pub mod Trims
pub mod Answers
pub mod laws
