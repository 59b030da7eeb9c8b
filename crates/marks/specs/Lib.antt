pub mod Marked
pub mod Lent
