-- The laws of the crate readback.
pub mod Bits
pub mod Lists
pub mod Led
pub mod Entries
pub mod Standing
pub mod Templates
pub mod TreeFacts
pub mod ReadBack
pub mod Bytes
