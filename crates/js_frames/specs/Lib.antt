pub mod Arenas
pub mod Rows
pub mod Reading
pub mod Begun
pub mod Soundness
pub mod Names
pub mod Dues
pub mod inner
