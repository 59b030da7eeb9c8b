pub mod Slots
mod LastDriven
pub mod Present
pub mod Entries
pub mod Tables
pub mod Polled
mod GoneSessions
mod Ordering
pub mod TableBytes
pub mod WholeTurns
mod Socketing
mod OneTurn
mod Turned
pub mod Serving
mod Committed
mod FoundCommits
mod Departing
mod AllThatLeft
mod Peers
mod Shorts
mod Progress
mod Widths
mod Classes
