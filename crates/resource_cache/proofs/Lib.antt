pub mod Noting
pub mod Holding
