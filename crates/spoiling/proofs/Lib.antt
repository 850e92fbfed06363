pub mod Added
pub mod Distinct
mod Storing
mod Examples
