pub mod RangeTests
pub mod Passes
