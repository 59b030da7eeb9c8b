pub mod Steps
pub mod Merging
pub mod Sweeping
pub mod Readers
pub mod Inside
pub mod Agreeing
