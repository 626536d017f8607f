pub mod Lines
pub mod Format
pub mod Ranges
pub mod inner
