pub mod Division
pub mod Images
