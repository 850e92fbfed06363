pub mod Enlargement
pub mod Pair
