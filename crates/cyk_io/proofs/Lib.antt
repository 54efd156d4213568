pub mod ListLemmas
pub mod StreamsLemmas
pub mod GatheringLemmas
pub mod AheadLemmas
pub mod LinesLemmas
pub mod BlocksLemmas
pub mod MemoryLemmas
