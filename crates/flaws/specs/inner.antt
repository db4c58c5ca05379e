pub mod Reasons
pub mod Flaws
pub mod Unsummed
pub mod Lacks
pub mod Views
