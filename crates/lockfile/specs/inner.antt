pub mod Views
pub mod Search
pub mod Written
