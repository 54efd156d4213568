pub mod DrawsLemmas
pub mod GeneratedLemmas
