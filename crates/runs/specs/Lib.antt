pub mod EndLaws
pub mod NumberLaws
pub mod Run
pub mod FoldLaws
pub mod Table
pub mod Unique
