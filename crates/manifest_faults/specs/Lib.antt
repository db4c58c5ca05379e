pub mod inner
pub use Rattle.manifest.specs.Manifests
