pub mod Row
pub mod Step
pub mod StateLaws
pub mod Relied
pub mod MoveLaws
pub mod StepLaws
pub mod WiringLaws
pub mod Unique
