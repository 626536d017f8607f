pub mod Characters
pub mod Digits
pub mod Number
pub mod Text
pub mod TextFault
