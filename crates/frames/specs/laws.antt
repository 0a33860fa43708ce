-- The laws of the crate frames.
pub mod Told
