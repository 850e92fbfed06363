pub mod Facts
mod Writing
pub mod Settling
pub mod Laws
pub mod Values
pub mod Numbers
