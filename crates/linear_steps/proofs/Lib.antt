-- The proofs of the crate linear_steps that belong to no one function.
pub mod StepLaws
