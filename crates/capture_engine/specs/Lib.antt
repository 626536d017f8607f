pub mod Outside
pub mod Frames
pub mod Acks
pub mod Recording
pub mod inner
