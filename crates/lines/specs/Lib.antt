pub mod Flags
pub mod FlagsLaws
pub mod Records
pub mod Tally
pub mod TallyLaws
