pub mod Bounds
pub mod Numbers
pub mod Outcomes
