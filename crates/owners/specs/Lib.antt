-- The specs of the crate owners.
pub mod Owners
