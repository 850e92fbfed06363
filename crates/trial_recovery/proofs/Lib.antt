mod Examples
pub mod Reading
pub mod Judging
pub mod Claim
