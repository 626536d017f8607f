pub mod Trees
pub mod Reading
