pub mod Images
pub mod Heaps
pub mod Operations
pub mod Operators
