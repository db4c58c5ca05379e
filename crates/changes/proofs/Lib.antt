pub mod BothWays
pub mod Leading
pub mod Searched
pub mod Those
pub mod Visiting
