pub mod Survives
pub mod Counts
pub mod Example
