pub mod Chains
pub mod Merging
pub mod Rows
pub mod Indexed
pub mod Counts
