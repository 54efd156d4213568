pub mod LanguageLemmas
pub mod AnsweringLemmas
pub mod TokenLineLemmas
pub mod RepliesLemmas
pub mod SessionLemmas
pub mod ToldLemmas
pub mod RunLemmas
pub mod RunningLemmas
