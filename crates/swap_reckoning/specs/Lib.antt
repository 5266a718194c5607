pub mod Asked
pub mod Work
pub mod Searching
pub mod Noting
pub mod Reckoned
