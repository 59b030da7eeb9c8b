-- The words of the contracts on frames, commands and replies.
pub mod Reading
pub mod Answers
pub mod Meaning
pub mod Writing
pub mod Replies
