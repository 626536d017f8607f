pub mod Lasting
pub mod Lists
pub mod Moves
pub mod Numbers
pub mod Plain
pub mod ShownImages
pub mod There
