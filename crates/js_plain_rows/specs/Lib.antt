pub mod Images
pub mod Expressions
pub mod Statements
