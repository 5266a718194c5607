pub mod Label
pub mod Labelled
pub mod Texts
pub mod Lists
