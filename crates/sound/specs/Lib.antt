-- The specs of the crate sound.
pub mod laws
