-- The specs of the crate links.
pub mod Links
pub mod Parts
pub mod TreeSteps
pub mod laws
