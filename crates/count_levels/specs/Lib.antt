pub mod Mean
pub mod Held
