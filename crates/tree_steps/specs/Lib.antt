-- The specs of the crate tree_steps.
pub mod Ready
