pub mod Decimal
pub mod Drafts
pub mod Lines
pub mod Text
