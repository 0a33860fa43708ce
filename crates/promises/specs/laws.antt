-- The laws of the crate promises.
pub mod Promises
