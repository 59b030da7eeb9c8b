pub mod Lines
pub mod Faults
pub mod Transcript
pub mod Calls
