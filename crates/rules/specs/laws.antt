-- The laws of the crate rules.
pub mod Lists
pub mod Told
pub mod Related
pub mod Never16
pub mod Effects
pub mod Clean
pub mod Sound
pub mod SoundRules
pub mod Rows
