-- What contracts say of runs that are merged.
pub mod AtRest
pub mod Contents
pub mod KeptRuns
pub mod MadeRuns
pub mod Next
pub mod RunSizes
pub mod Value
