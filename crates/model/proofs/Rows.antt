-- Worked runs of the machine, computed: what stated sessions are answered, over an empty map and a device of 4,096 sectors.
pub mod Words
pub mod Snapshots
pub mod Conflicts
pub mod Limits
