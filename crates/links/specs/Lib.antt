pub mod Record
pub mod RecordLaws
pub mod Wire
pub mod WireLaws
pub mod Refuse
pub mod RefuseLaws
