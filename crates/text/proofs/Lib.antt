mod Puts
mod Digits
mod WrongRows
mod Polynomials
mod Lengths
pub mod Writing
