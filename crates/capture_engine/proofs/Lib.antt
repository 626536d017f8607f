pub mod Logging
pub mod Records
pub mod Recordings
pub mod Runs
