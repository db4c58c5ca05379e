pub mod Listed
pub mod Words
pub mod Windows
pub mod Forms
