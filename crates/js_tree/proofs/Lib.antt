pub mod Arenas
pub mod Items
pub mod Walks
pub mod Joins
pub mod Functions
pub mod Held
pub mod Index
pub mod Computed
