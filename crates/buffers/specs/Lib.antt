pub mod Memory
pub mod Verdict
pub mod VerdictLaws
pub mod NumberLaws
