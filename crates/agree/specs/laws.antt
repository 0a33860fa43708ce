-- The laws of the crate agree.
pub mod Suits
pub mod Layout
pub mod Decoded
pub mod Places
pub mod Files
pub mod Aside
pub mod Proved
pub mod Never16
pub mod Functions
