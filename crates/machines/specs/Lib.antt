-- The specs of the crate machines.
pub mod Fetched
pub mod Machine
pub mod Runs
pub mod Slots
pub mod Instruction
pub mod Start
pub mod Steps
pub mod laws
