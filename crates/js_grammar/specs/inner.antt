pub mod Ranks
pub mod Sorts
