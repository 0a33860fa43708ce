-- The specs of the crate lists.
pub mod Shapes
pub mod Sets
pub mod Facts
pub mod Pass
pub mod Marks
pub mod laws
