-- The specs of the crate join.
pub mod Adjoin
pub mod Join
pub mod Groupings
pub mod Copied
pub mod Operands
pub mod laws
