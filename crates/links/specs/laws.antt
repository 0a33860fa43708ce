-- The laws of the crate links.
pub mod LinksLaws
pub mod Stands
pub mod Templates
pub mod PartsLaws
pub mod LinkSteps
pub mod TreeSteps
