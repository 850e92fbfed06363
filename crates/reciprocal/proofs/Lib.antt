pub mod Reciprocals
mod Table
pub mod PrimeField
pub mod Examples
