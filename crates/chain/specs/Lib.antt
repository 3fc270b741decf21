pub mod Chain
pub mod ChainLaws
pub mod ListLaws
pub mod Unique
pub mod StillLaws
