pub mod Margin
pub mod Others
pub mod RecoveredMargin
