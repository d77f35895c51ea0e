pub mod Handed
pub mod Items
pub mod Lines
