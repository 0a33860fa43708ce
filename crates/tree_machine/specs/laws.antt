-- The laws of the crate tree_machine.
pub mod Real
pub mod Look
pub mod Places
pub mod Agree
pub mod FileLaws
