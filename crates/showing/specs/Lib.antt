pub mod Show
pub mod Parts
