pub mod Changed
pub mod OnWays
pub mod Searches
pub mod Views
pub mod Ways
