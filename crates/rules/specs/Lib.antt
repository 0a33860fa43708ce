-- The specs of the crate rules.
pub mod WrongNumber
pub mod State
pub mod Rules
pub mod Fit
pub mod Answers
pub mod Owned
pub mod laws
