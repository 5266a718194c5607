pub mod Combinations
pub mod Found
