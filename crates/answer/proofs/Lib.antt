pub mod Lengths
pub mod Runs
pub mod Reading
mod Examples
pub mod Places
pub mod Ranges
pub mod Written
mod Numerators
pub mod Searches
