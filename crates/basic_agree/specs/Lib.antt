-- The specs of the crate basic_agree.
pub mod Statement
pub mod laws
