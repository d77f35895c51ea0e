pub mod Cards
pub mod Drawings
pub mod Members
pub mod Telling
