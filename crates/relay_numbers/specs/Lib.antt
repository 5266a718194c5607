pub mod Written
pub mod Fits
