pub mod Meaning
pub mod Settling
pub mod Laws
mod Testing
