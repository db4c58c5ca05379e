pub use Rattle.model.specs.Outcome
pub use Rattle.model.specs.Summary
pub mod Names
pub mod EntryViews
pub mod Views
pub mod inner
