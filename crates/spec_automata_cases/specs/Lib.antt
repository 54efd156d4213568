pub mod PositionExamples
pub mod CommentExamples
pub mod StateExamples
