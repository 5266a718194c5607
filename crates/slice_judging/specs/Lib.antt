pub mod Drivable
pub mod Judged
