pub mod Calls
pub mod Index
pub mod Loops
pub mod Numbers
pub mod Stands
pub mod Turns
pub mod Views
pub mod Ways
