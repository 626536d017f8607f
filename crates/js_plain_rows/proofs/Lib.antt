pub mod Lists
pub mod Conversions
pub mod Expressions
pub mod Statements
