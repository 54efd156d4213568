pub mod Graphs
pub mod Flags
pub mod Derivations
pub mod Chains
pub mod HeightSteps
pub mod Implications
