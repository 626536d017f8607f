pub mod Bindings
pub mod ChainSteps
pub mod Closing
pub mod Spelled
pub mod Walks
