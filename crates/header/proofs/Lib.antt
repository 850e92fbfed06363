pub mod Fields
pub mod Appended
