pub mod Lines
pub mod Orders
pub mod Steps
pub mod Files
pub mod Faults
pub mod Written
pub mod inner
