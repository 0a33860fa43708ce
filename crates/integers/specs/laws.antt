-- The laws of the crate integers.
pub mod Laws
pub mod Floor
pub mod Rows
