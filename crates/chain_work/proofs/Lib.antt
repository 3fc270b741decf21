pub mod TurnLaws
pub mod WorkLaws
