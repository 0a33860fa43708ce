pub mod Input
pub mod laws
