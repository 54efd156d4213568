pub mod JoinLemmas
pub mod MatrixLemmas
pub mod SolutionLemmas
pub mod PartLemmas
pub mod ClosedChartLemmas
pub mod NodeLemmas
pub mod ClosingLemmas
pub mod ChartRowLemmas
