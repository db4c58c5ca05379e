pub mod Files
pub mod Folders
pub mod Opened
pub mod inner
