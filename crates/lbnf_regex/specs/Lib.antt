pub mod Automata
pub mod Lexicons
pub mod Patterns
pub mod Steps
pub mod Sets
pub mod Owners
pub mod States
pub mod ByteSets
