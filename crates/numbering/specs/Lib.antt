pub mod Numberings
pub mod Pairs
pub mod GivenViews
pub mod inner
