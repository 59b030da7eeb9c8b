pub mod RunSteps
pub mod OldRuns
pub mod KeptRuns
pub mod MadeRuns
pub mod Moves
pub mod NextNumbers
mod SweptRuns
pub mod RunsAtRest
mod Examples
