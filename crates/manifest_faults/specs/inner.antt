pub mod Places
pub mod Reasons
pub mod Blame
pub mod Lines
pub mod Finding
