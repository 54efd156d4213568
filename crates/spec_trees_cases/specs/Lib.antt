pub mod Examples
pub mod ListExamples
pub mod FirstTreeCases
pub mod TextCases
