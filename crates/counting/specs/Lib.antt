pub mod Count
pub mod Theorems
