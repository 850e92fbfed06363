pub mod Denominators
