pub mod Settlement
pub mod Settling
pub mod Laws
