pub mod Each
pub mod Numbers
