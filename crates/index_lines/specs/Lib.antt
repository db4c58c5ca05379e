pub mod Shapes
pub mod Records
pub mod Reasons
pub mod Views
pub mod inner
