-- The specs of the crate readback.
pub mod Bits
pub mod Lists
pub mod laws
