pub mod Entries
pub mod Right
pub mod Runs
pub mod Lines
pub mod Texts
