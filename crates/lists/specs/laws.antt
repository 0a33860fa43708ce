-- The laws of the crate lists.
pub mod SetsLaws
pub mod Each
pub mod PassLaws
pub mod ReadLaws
pub mod MarksLaws
pub mod MarkSteps
pub mod RunLaws
pub mod Known
pub mod SlotLaws
pub mod Rows
pub mod ShapeLaws
