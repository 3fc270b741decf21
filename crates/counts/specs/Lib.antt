pub mod Both
pub mod Either
pub mod Part
pub mod PartLaws
pub mod Round
pub mod Laws
pub mod Sized
