pub use Rattle.model.specs.Order
pub use Rattle.model.specs.Selection
pub mod Classes
pub mod Groups
