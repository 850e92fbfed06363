pub mod Hand
pub mod Enlargement
pub mod Judged
pub mod Sharp
