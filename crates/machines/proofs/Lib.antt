-- The proofs of the crate machines that belong to no one function.
pub mod Laws
pub mod ResolveLaws
pub mod theorems
