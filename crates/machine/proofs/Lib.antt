pub mod Tenths
pub mod Theory
