pub mod Parts
pub mod Tokens
