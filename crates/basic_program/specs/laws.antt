-- The laws of the crate basic_program.
pub mod Known
pub mod Rows
