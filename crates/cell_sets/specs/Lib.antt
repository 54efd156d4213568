pub mod Cells
pub mod Grids
pub mod Places
pub mod ListCells
pub mod Words
