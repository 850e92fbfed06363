pub mod CommonDivisor
