pub mod Incompatibilities
pub mod Stores
pub mod inner
