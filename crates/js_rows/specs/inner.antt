pub mod SmallHost
pub mod Scripts
pub mod Counts
