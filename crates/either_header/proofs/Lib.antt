pub mod Unflagged
pub mod Headers
pub mod Alike
mod Example
pub mod ShortHeader
