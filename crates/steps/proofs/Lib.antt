-- The proofs of the crate steps that belong to no one function.
pub mod StepLaws
pub mod RunLaws
