pub mod Items
pub mod Reduced
