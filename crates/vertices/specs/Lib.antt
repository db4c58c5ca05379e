pub mod Texts
pub mod Orders
pub mod Views
pub mod inner
