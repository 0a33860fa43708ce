-- The laws of the crate tree.
pub mod Parts
pub mod SummaryLaws
pub mod FilledLaws
pub mod TemplateSteps
pub mod TreeSteps
pub mod MarkedSteps
pub mod Laid
pub mod Judged
