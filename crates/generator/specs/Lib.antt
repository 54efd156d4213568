pub mod Generated
pub mod Draws
pub mod Laws
