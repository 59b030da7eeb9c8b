-- The lemmas of this crate.
pub mod Holding
pub mod Ordered
pub mod Stable
pub mod Sweeping
