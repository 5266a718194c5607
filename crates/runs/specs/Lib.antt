pub mod OneSwap
pub mod Run
pub mod Answers
pub mod Theorems
