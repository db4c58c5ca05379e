pub mod Views
pub mod Bounds
pub mod Names
pub mod Checksums
