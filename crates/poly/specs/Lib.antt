pub mod Coefficients
pub mod Operations
pub mod Vectors
