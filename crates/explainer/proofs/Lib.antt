pub mod Between
pub mod Sweep
pub mod Counts
pub mod TextLaws
