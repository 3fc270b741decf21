pub mod Records
pub mod RecordsLaws
pub mod Work
pub mod EndLaws
