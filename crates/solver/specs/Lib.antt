pub mod Solving
pub mod Refusing
pub mod inner
pub use Rattle.facts.specs.inner.Nodes
