pub mod Node
pub mod Nodes
pub mod Changes
pub mod Names
pub mod Order
pub mod Reading
pub mod inner
