pub use Rattle.model.specs.Verdict
pub use Rattle.model.specs.Walk
pub use Rattle.catalogue.specs.Problems
pub use Rattle.facts.specs.inner.Built
pub mod Verdicts
pub mod Texts
pub mod Preferred
pub mod inner
