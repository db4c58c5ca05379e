pub mod Combinations
pub mod Claims
pub mod Names
pub mod Naming
pub mod Prepared
pub mod Ready
pub mod Steps
pub mod Answers
