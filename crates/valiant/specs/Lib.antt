pub mod Charts
pub mod Laws
pub mod Codes
pub mod Rows
pub mod Filling
