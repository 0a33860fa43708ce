-- The laws of the crate renamed.
pub mod Renaming
pub mod Ends
pub mod Programs
pub mod Reindexed
pub mod Trees
pub mod Linears
pub mod Ranks
pub mod Found
pub mod Trim
pub mod Reached
pub mod Flattens
pub mod Again
pub mod Trimmed
pub mod Rows
pub mod Owned
