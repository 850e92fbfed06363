pub mod Tabulated
pub mod Search
pub mod Counting
pub mod Overwriting
