-- The log: its format, what an image holds, what a log stands for, and what opening finds.
pub mod Format
pub mod RecordFormat
pub mod Encoding
pub mod LogImage
pub mod Staging
pub mod Recovery
pub mod LogState
pub mod LogFaults
pub mod Reading
pub mod Opening
pub mod OpenedLog
pub mod Appending
pub mod Copying
pub mod MapReading
