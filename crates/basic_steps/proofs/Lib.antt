-- The proofs of the crate basic_steps that belong to no one function.
pub mod StepLaws
