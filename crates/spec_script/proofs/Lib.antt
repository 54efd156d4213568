pub mod ScriptLemmas
pub mod BeginningLemmas
pub mod BreaksLemmas
