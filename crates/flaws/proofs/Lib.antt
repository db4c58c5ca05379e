pub mod Reasons
pub mod Elements
pub mod Listed
pub mod Conditions
pub mod Found
pub mod Twins
pub mod Telling
pub mod StillContent
