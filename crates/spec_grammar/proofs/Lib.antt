pub mod DerivationLemmas
pub mod CycleLemmas
