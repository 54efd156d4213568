pub mod TreeNodes
pub mod Laws
pub mod Codes
