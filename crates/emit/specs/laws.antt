-- The laws of the crate emit.
pub mod Stores
pub mod Steps
