-- What the code keeps, and no public contract cites.
pub mod Commands
pub mod Lines
pub mod Material
pub mod Recording
pub mod Refusals
