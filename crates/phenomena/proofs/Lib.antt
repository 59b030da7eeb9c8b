pub mod Paths
pub mod Pages
pub mod ReadValues
pub mod Versions
pub mod Laws
pub mod Examples
