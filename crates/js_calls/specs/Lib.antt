pub mod Asks
pub mod Calls
pub mod Texts
pub mod Entered
pub mod Programs
