pub mod Table
pub mod Prepared
