pub mod Joins
pub mod ClosedCharts
pub mod JoinedRows
pub mod Laws
