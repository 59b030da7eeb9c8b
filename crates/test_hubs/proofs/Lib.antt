pub mod Copies
pub mod Opened
