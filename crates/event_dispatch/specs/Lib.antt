pub mod Dispatch
pub mod Listeners
pub mod Path
pub mod inner
