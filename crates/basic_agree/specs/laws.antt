-- The laws of the crate basic_agree.
pub mod Programs
