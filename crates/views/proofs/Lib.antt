pub mod Running
pub mod TellingModes
