pub mod Sources
pub mod Faults
pub mod Stores
pub mod Runs
pub mod Problems
pub mod Loads
pub mod inner
