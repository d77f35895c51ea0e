pub mod Causes
pub mod Checks
pub mod Meaning
pub mod Outputs
pub mod Theory
pub mod Wheels
