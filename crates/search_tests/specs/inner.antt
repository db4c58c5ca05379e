pub mod Meeting
pub mod Spaces
pub mod Universes
