-- The laws of the crate trial.
pub mod Input
