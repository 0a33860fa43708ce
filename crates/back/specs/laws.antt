-- The laws of the crate back.
pub mod Rows
pub mod Formed
pub mod Category
pub mod Good
pub mod GoodLaws
pub mod Fixed
pub mod ListBack
