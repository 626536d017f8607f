pub mod Operands
pub mod Waiting
pub mod ArenaRows
pub mod Guards
pub mod Texts
pub mod Objects
pub mod Shaped
