-- The laws of the crate bit_writer.
pub mod Lists
pub mod Wrote
