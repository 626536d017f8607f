pub mod Texts
mod Decoding
pub mod Numbers
mod Spellings
mod Parts
mod Reading
