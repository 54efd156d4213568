pub mod MatchingExamples
pub mod TokenExamples
