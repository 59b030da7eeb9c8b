pub mod Opening
pub mod Copied
pub mod Rooms
pub mod Printed
