pub mod Words
pub mod SetBits
mod Examples
