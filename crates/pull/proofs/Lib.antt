-- The laws that the proofs of the crate pull share.
pub mod Words
pub mod Lines
pub mod Clips
pub mod Checks
