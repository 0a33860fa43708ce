-- The laws of the crate rewrite.
pub mod TokensLaws
pub mod ReindexLaws
pub mod Steps
