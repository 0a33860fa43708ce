-- The specs of the crate lines.
pub mod Lines
pub mod laws
