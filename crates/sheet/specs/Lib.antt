pub mod Sheet
pub mod Logs
pub mod Reversed
pub mod Counts
