mod Rows
pub mod Shorter
pub mod Sizes
