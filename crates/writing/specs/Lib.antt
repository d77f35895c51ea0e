pub mod Bytes
pub mod Longest
pub mod Normal
pub mod Rows
pub mod Runs
pub mod Writes
pub mod Written
