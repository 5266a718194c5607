pub mod Repeats
pub mod Buckets
pub mod Searching
pub mod Late
