pub mod Text
pub mod Program
pub mod Size
pub mod Limits
pub mod Sheet
