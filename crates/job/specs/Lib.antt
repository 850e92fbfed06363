pub mod Refusals
pub mod Form
pub mod ParsedJob
