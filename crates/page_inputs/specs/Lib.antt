pub mod Inputs
pub mod Turns
