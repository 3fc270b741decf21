pub mod Two
pub mod State
pub mod StateLaws
pub mod Refuse
pub mod RefuseLaws
pub mod Tried
pub mod Unique
