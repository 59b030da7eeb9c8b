-- What a device of sectors gives back, and what a crash leaves of it.
pub mod SectorModel
pub mod Counts
pub mod Settled
pub mod FileModel
pub mod FileOpening
pub mod FileCalls
pub mod Slots
pub mod FileDevices
