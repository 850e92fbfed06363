pub mod Values
pub mod Rows
pub mod Roots
pub mod Reduced
pub mod Same
pub mod Written
mod Examples
