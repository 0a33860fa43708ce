-- The specs of the crate tabulate.
pub mod Slots
pub mod Walk
pub mod Collect
pub mod Judge
pub mod Put
pub mod laws
