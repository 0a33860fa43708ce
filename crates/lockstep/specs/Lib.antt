-- The specs of the crate lockstep.
pub mod laws
