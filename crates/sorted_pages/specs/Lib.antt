-- What contracts say of pages.
pub mod Held
pub mod Values
pub mod Flags
pub mod Heads
pub mod Pages
pub mod Rooms
pub mod Trims
pub mod Summaries
pub mod Changes
pub mod Ranges
