pub mod TextStore
pub mod Splices
pub mod TokenEdits
pub mod TextEdits
pub mod Laws
pub mod Lexing
pub mod Trimming
