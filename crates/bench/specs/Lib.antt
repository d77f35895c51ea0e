pub mod Tables
pub mod Piles
