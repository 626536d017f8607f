pub mod Least
pub mod Numbered
pub mod Trees
