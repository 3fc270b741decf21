pub mod Samples
pub mod SamplesLaws
pub mod Work
pub mod FoldLaws
pub mod EndLaws
