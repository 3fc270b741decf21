pub mod Spelling
pub mod EnumLaws
pub mod SpellingLaws
pub mod ReadBackLaws
