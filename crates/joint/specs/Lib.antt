pub mod Composite
pub mod CompositeLaws
pub mod Refuse
pub mod RefuseLaws
pub mod Unique
