mod FormsLemmas
mod QuestionLemmas
mod LinesAndBlocksLemmas
pub mod ReadingLemmas
