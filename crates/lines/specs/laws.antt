-- The laws of the crate lines.
pub mod Laws
