pub mod Told
pub mod Cause
pub mod Schedule
pub mod MemSource
pub mod MemSink
pub mod StdState
