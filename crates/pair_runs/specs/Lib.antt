pub mod Run
pub mod NumberLaws
pub mod Unique
