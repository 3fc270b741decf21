pub mod Record
pub mod Answer
pub mod Trace
pub mod Laws
pub mod TraceLaws
