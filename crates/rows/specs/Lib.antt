pub mod Rows
pub mod Steps
