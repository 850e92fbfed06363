pub mod Arrays
pub mod Following
pub mod Lines
pub mod PairLaws
pub mod Discrepancies
