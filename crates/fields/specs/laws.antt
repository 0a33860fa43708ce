-- The laws of the crate fields.
pub mod Laws
