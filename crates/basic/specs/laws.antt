-- The laws of the crate basic.
pub mod Rows
pub mod ReadLaws
pub mod TokenLaws
pub mod StepLaws
pub mod FileLaws
pub mod LevelLaws
pub mod ForestLaws
pub mod ClassLaws
pub mod DepthLaws
pub mod AllIn
