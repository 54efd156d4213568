pub mod DerivationCases
pub mod CycleCases
