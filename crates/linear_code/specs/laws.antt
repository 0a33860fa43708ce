-- The laws of the crate linear_code.
pub mod BytesLaws
pub mod ProgramLaws
