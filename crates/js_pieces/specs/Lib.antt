pub mod Pieces
pub mod Nodes
pub mod Lists
pub mod Functions
