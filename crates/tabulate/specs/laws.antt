-- The laws of the crate tabulate.
pub mod WalkLaws
pub mod SlotLaws
pub mod CollectLaws
pub mod BitsLaws
pub mod JudgeLaws
pub mod CheckLaws
pub mod PutLaws
pub mod CodeLaws
pub mod WriteLaws
pub mod TabulateLaws
