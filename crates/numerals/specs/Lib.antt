pub mod Bytes
pub mod BytesLaws
pub mod Digits
pub mod DigitsLaws
