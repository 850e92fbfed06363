pub mod CommonDivisors
pub mod Decision
