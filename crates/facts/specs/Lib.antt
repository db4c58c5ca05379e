pub use Rattle.model.specs.Selection
pub use Rattle.model.specs.inner.Search
pub mod inner
