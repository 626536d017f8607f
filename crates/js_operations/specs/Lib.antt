pub mod Operations
pub mod Unary
pub mod NextNumbers
pub mod Converted
pub mod Literals
