-- The laws of the crate join.
pub mod AdjoinLaws
pub mod OperandsLaws
pub mod TurnLaws
pub mod JudgedLaws
pub mod PutLaws
pub mod WholeLaws
