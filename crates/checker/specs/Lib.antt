pub mod RefusedSteps
pub mod Texts
pub mod inner
