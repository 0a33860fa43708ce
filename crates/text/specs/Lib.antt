-- The specs of the crate text.
pub mod Text
pub mod Put
pub mod laws
