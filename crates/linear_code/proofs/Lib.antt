-- The proofs of the crate linear_code that belong to no one function.
pub mod FetchLaws
