pub mod Exactly
pub mod RowBytes
pub mod Counting
pub mod Enlarging
pub mod Rule
pub mod Pair
