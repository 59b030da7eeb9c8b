pub mod Sessions
pub mod Steps
pub mod Calls
pub mod Requests
pub mod Committing
pub mod Reclaims
