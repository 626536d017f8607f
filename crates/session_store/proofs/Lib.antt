pub mod Items
pub mod Frames
pub mod Told
pub mod Unique
pub mod Writes
