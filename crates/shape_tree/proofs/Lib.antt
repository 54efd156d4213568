pub mod DigitLemmas
pub mod HeightLemmas
pub mod PartLemmas
pub mod ItemLemmas
pub mod OpeningLemmas
pub mod EditLemmas
