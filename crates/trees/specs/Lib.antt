pub mod Trees
pub mod inner
