-- The laws of the crate flatten.
pub mod Copied
pub mod TemplateSteps
pub mod FileSteps
