pub mod Ways
pub mod Room
pub mod Reckoning
