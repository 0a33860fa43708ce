-- The specs of the crate trim.
pub mod Kept
pub mod Trim
pub mod Lines
pub mod Function
pub mod Reached
pub mod Standing
pub mod laws
