-- The laws of the crate files.
pub mod CodesLaws
pub mod GrammarLaws
pub mod AcceptedLaws
pub mod BytesLaws
pub mod ReadingLaws
pub mod EntriesLaws
pub mod TableLaws
pub mod AllGot
pub mod Heads
pub mod EntriesRead
pub mod RefusalLaws
pub mod EntriesSteps
pub mod PaddingSteps
pub mod RowFilled
pub mod RoomLaws
pub mod Rows
