pub mod Gathering
pub mod Sorting
pub mod Behind
pub mod Entries
pub mod Declaring
