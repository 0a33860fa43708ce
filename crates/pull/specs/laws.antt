-- The laws of the crate pull.
pub mod Laws
pub mod Places
