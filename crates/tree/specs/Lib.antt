-- The specs of the crate tree.
pub mod Summary
pub mod Filled
pub mod Marked
pub mod Tiers
pub mod laws
