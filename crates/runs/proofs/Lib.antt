pub mod Going
pub mod Answered
