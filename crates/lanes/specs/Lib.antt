pub mod Lanes
pub mod ModulusOf
