pub mod Views
pub mod Encodings
pub mod Everywhere
pub mod inner
