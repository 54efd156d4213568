pub mod Matrices
pub mod Rows
pub mod Rooms
pub mod Loading
pub mod Pairs
pub mod Products
pub mod Meeting
pub mod Views
