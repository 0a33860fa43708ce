-- Laws of the crate integers.
pub mod Exact
pub mod Adding
pub mod Dividing
