pub mod Answers
pub mod Printing
pub mod Searching
pub mod Wanted
pub mod OpenNodes
