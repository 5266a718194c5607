pub mod Naming
pub mod Dying
pub mod Slots
