pub mod Marks
pub mod Outlines
pub mod Spans
pub mod Terms
pub mod Views
pub mod Words
