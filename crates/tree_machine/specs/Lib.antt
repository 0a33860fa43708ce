-- The specs of the crate tree_machine.
pub mod laws
