-- The laws of the crate trim.
pub mod KeptLaws
pub mod StandLaws
pub mod ReachedLaws
pub mod LineLaws
