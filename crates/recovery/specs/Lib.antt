pub mod Recover
pub mod Fits
pub mod Theorems
pub mod Again
