pub mod Sets
pub mod inner
