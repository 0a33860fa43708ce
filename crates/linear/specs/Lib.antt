pub mod Filled
pub mod laws
