pub use Rattle.model.specs.Content
pub mod Rows
pub mod inner
