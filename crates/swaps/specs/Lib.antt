pub mod Outcome
pub mod Work
pub mod Bytes
pub mod Entry
