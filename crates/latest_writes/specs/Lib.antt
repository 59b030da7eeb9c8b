-- The definitions of heads, of the order in which writes are sorted, and of how many are buffered.
pub mod Buffered
pub mod Rising
