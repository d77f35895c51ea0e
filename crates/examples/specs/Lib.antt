pub mod SixStates
pub mod MarkedExamples
