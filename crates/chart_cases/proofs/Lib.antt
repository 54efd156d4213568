mod TripleSteps
mod BracketSteps
pub mod BinaryCases
