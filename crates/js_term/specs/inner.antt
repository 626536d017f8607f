pub mod ThreeRows
pub mod Values
