pub mod Session
pub mod Recovery
pub mod Telling
pub mod Keeping
pub mod inner
