-- The laws of the crate lockstep.
pub mod Lockstep
pub mod InStep
pub mod Likeness
pub mod Plain
