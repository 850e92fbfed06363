pub mod Draws
pub mod Spoiling
