-- The laws of the crate machines.
pub mod FetchedLaws
pub mod Slots
pub mod Resolved
pub mod Steps
pub mod Constants
pub mod Rows
