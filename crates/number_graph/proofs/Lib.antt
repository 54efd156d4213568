pub mod LinkLemmas
pub mod FlagLemmas
pub mod ReachLemmas
pub mod DerivationLemmas
pub mod ChainLemmas
pub mod HeightLemmas
pub mod ImplicationLemmas
