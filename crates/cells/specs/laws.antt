-- The laws of the crate cells.
pub mod Laws
pub mod Lists
