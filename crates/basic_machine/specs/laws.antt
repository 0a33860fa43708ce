-- The laws of the crate basic_machine.
pub mod LinksLaws
pub mod Stands
pub mod Instructions
pub mod PassLaws
