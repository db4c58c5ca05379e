pub mod Explanations
pub mod inner
