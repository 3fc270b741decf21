pub mod Work
pub mod Unique
