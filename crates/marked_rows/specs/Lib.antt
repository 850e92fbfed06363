pub mod Marks
pub mod Table
