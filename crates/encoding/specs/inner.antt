pub mod Everything
pub mod Rows
