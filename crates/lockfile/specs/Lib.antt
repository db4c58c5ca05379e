pub use Rattle.model.specs.Outcome
pub use Rattle.model.specs.Content
pub use Rattle.model.specs.Order
pub mod Locks
pub mod Spelling
pub mod inner
