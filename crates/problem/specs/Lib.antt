pub mod Rows
pub mod Reduced
pub mod Answers
