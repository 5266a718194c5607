pub mod Mixed
pub mod Chains
pub mod Walk
