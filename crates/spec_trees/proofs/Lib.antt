pub mod FirstTreeLemmas
pub mod EndsLemmas
pub mod ToldLemmas
pub mod TellingLemmas
pub mod ExistenceLemmas
pub mod LeastTreeLemmas
