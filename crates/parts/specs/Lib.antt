pub mod Part
pub mod Lent
