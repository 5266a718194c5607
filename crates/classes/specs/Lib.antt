pub mod Classes
pub mod Pass
pub mod Keys
