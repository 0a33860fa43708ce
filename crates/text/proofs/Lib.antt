-- The laws that the proofs of the crate text share.
pub mod Decimal
pub mod Laws
