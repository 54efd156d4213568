pub mod Shapes
pub mod Balance
pub mod Parts
pub mod Heights
pub mod Digits
pub mod Edits
pub mod Openings
pub mod Turning
