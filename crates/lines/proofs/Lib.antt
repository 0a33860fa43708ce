-- The laws that the proofs of the crate lines share.
pub mod Enough
pub mod Laws
