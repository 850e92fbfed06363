pub mod EitherHeader
pub mod Unflagged
pub mod ShortHeader
