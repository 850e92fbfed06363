mod Monomials
pub mod Steps
pub mod Division
pub mod Euclid
pub mod Series
pub mod Products
pub mod Degrees
pub mod Lists
pub mod Coprime
