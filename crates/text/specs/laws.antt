-- The laws of the crate text.
pub mod Laws
pub mod Lengths
