-- The laws that the proofs of the crate exporter share.
pub mod Laws
