pub mod Call
pub mod CallLaws
pub mod AsSample
pub mod Unique
pub mod NumberLaws
