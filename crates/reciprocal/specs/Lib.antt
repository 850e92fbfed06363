pub mod Reciprocals
pub mod Reports
