pub mod Registers
pub mod Loading
pub mod LoadLaws
pub mod Reading
pub mod ReadLaws
pub mod Fits
