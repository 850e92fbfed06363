pub mod Refusals
pub mod Trial
pub mod Rows
