pub mod Calls
pub mod Parsing
pub mod Records
pub mod Recovering
pub mod Encoding
pub mod Protocol
pub mod Putting
pub mod CopyProtocol
