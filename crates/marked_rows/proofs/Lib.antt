pub mod Marks
pub mod Filling
pub mod Entries
