pub mod Heads
pub mod LoggedInputs
pub mod Laws
pub mod Parts
