pub mod Targets
pub mod Glances
