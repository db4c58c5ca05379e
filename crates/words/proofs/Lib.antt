pub mod Commands
pub mod WordsFaults
