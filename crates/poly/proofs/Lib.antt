pub mod Lists
pub mod Bounds
pub mod Values
pub mod Linear
pub mod Lengths
pub mod Products
