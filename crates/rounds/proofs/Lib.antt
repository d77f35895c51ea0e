pub mod Passes
pub mod Firsts
pub mod Leading
pub mod Joining
pub mod Filling
pub mod Rows
pub mod Refining
