pub mod ThreeRows
