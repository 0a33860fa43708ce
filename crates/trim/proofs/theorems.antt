-- Laws that rest on definitions which must-fail edits change: beside these, in specs/, such an edit would read as one that cannot be read.
pub mod BothLaws
pub mod EntryLaws
pub mod MarkLaws
pub mod RoundsLaws
pub mod TemplateLaws
pub mod WholeLaws
