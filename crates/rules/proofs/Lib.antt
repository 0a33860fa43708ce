-- Laws of the crate rules.
pub mod Laws
