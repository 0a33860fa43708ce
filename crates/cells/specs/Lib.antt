-- The specs of the crate cells.
pub mod Cells
pub mod Numbers
pub mod laws
