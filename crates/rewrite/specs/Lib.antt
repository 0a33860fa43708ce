-- The specs of the crate rewrite.
pub mod Reindex
pub mod Tokens
pub mod laws
