pub mod BadLog
pub mod Slots
pub mod Accepted
pub mod Open
pub mod Bounds
