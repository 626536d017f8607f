pub mod Along
pub mod Filled
pub mod Primitive
