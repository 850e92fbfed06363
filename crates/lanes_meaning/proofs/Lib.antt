pub mod Meaning
pub mod Products
