-- The laws of the crate tree_file.
pub mod Lengths
pub mod Placed
pub mod Writable
