pub mod Tables
pub mod AnswerMeaning
pub mod OnlyOne
pub mod Interpolation
pub mod Fraction
pub mod Candidates
pub mod Decided
