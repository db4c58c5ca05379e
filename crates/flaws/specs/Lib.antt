pub mod inner
pub use Rattle.model.specs.Verdict
pub use Rattle.selection.specs.inner.Places
