pub mod Rows
pub mod Keeping
pub mod Answering
pub mod Copying
pub mod Spelling
pub mod Tabling
pub mod LastRound
pub mod Meaning
