pub mod Held
pub mod State
