pub mod Grammars
pub mod Trees
pub mod Derivation
pub mod Cycles
pub mod Laws
pub mod CycleLaws
