pub mod Flats
pub mod Marks
pub mod Decoding
pub mod Steps
pub mod Leads
