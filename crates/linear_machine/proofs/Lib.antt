-- The proofs of the crate linear_machine that belong to no one function.
pub mod FileLaws
