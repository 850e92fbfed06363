mod Model
pub mod Hand
pub mod Enlargement
pub mod Judged
mod Lists
pub mod Sharp
