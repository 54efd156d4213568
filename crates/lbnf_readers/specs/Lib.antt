pub mod FileLaws
pub mod ReadingLaws
pub mod Scanning
pub mod ExpressionReading
pub mod FileReading
pub mod FileFaults
pub mod FileDefinitions
