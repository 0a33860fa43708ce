-- The specs of the crate tree_code.
pub mod Fetch
pub mod laws
