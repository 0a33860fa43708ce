-- The specs of the crate basic.
pub mod Basic
pub mod Reading
pub mod Tabulated
pub mod Checked
pub mod Valid
pub mod Told
pub mod Forest
pub mod laws
