-- The definitions of the engine.
pub mod Faults
pub mod Least
pub mod Begins
pub mod HistoryValue
pub mod Recovery
pub mod StandsFor
pub mod Changes
pub mod Validations
pub mod Meaning
pub mod Opening
