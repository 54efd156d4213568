pub mod CellsLemmas
pub mod RisingLemmas
pub mod PlacesLemmas
pub mod MergingLemmas
pub mod CommonLemmas
pub mod GridLemmas
pub mod WordsLemmas
