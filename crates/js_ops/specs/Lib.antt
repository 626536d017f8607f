pub mod Convert
pub mod Numbers
pub mod Rows
