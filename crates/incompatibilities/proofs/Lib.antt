pub mod Broken
pub mod Lookups
pub mod Making
pub mod Merges
pub mod Merged
pub mod OneList
pub mod RowLemmas
pub mod Storing
