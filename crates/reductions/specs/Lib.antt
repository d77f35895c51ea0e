pub mod Aparts
pub mod Reductions
