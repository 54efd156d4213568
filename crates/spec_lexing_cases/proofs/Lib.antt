pub mod CasesLemmas
pub mod TokenLemmas
