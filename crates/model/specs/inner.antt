pub mod Assignment
pub mod Search
pub mod ContentOf
pub mod Terms
pub mod Instances
pub mod Checks
pub mod Listed
