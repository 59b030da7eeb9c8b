pub mod StepLaws
pub mod Falling
pub mod Cuts
pub mod MergeLaws
pub mod RunLaws
pub mod MarkSteps
pub mod Sweeps
