-- The laws of the crate unflatten.
pub mod Regions
pub mod Kept
pub mod HeadLaws
pub mod PutLaws
pub mod GrowLaws
pub mod Theorems
