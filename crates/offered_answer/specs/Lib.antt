pub mod Judgements
pub mod Tests
