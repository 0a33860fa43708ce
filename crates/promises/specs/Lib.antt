-- The specs of the crate promises.
pub mod laws
