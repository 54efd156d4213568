pub mod TextCases
pub mod FirstTreeCases
