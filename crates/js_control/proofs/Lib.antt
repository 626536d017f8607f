pub mod Storing
pub mod Windows
pub mod Requests
pub mod Pairs
pub mod KeySteps
pub mod Targets
pub mod WaitsOver
