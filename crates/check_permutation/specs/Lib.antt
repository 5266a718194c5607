pub mod BadPlace
