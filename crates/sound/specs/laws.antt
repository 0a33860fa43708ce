-- The laws of the crate sound.
pub mod Programs
pub mod Runs
pub mod Files
pub mod Machines
