pub mod Reading
pub mod Parsing
pub mod Faulting
pub mod LiteralParts
pub mod Expressions
pub mod BadDifferences
