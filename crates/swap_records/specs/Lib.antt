pub mod Kinds
pub mod Sides
pub mod Listed
pub mod Grands
pub mod Children
