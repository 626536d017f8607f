pub mod Grouping
pub mod Logging
pub mod Steps
