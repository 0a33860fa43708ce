-- Laws that rest on definitions which must-fail edits change: beside these, in specs/, such an edit would read as one that cannot be read.
pub mod Files
pub mod Inverse
pub mod Jumps
pub mod Lists
pub mod Shelf
pub mod Sound
pub mod Steps
pub mod Whole
