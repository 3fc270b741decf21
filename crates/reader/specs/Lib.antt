pub mod Reader
pub mod Unique
pub mod ReaderLaws
