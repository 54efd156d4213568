pub mod RowLemmas
pub mod CutLemmas
pub mod FillingLemmas
pub mod ChartLemmas
pub mod LawLemmas
pub mod CellLemmas
pub mod NextRowLemmas
