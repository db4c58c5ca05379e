pub mod Graphs
pub mod Names
pub mod Places
pub mod Contents
pub mod Met
pub mod Followed
pub mod Rounds
pub mod Taking
