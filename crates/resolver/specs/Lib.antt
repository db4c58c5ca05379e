pub mod Texts
pub mod Inputs
pub mod Answers
pub mod CheckedProofs
pub mod inner
