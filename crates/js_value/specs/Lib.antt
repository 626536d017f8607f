pub mod Callable
pub mod Image
pub mod Number
pub mod Numeral
pub mod Range
pub mod Same
