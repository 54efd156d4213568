pub mod Examples
pub mod TokenCases
