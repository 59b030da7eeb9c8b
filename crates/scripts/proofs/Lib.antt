pub mod Lent
pub mod Pieces
pub mod Texts
pub mod Labels
pub mod Steps
pub mod Reading
pub mod Runs
pub mod Writing
