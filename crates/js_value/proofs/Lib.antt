pub mod Callables
pub mod Images
