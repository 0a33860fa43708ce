-- The specs of the crate basic_code.
pub mod Fetch
pub mod laws
