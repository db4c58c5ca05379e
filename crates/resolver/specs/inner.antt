pub mod Replies
pub mod Same
pub mod Returning
