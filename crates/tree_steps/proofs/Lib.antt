-- The proofs of the crate tree_steps that belong to no one function.
pub mod StepLaws
