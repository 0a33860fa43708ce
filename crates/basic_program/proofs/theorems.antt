-- Laws that rest on definitions which must-fail edits change: beside these, in specs/, such an edit would read as one that cannot be read.
pub mod Bodies
pub mod Spots
