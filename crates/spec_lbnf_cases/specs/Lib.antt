pub mod ScanExamples
pub mod ReadingExamples
pub mod ExpansionExamples
pub mod CheckExamples
