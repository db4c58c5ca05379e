pub mod Parts
pub mod Units
pub mod Counting
pub mod Widening
