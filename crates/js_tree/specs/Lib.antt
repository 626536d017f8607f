pub mod Trees
pub mod Names
pub mod Arena
pub mod Indexed
pub mod TreeAt
pub mod Runs
pub mod Walk
pub mod Seen
