pub mod Laws
pub mod Claim
