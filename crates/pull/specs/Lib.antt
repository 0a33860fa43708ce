-- The specs of the crate pull.
pub mod Pull
pub mod laws
