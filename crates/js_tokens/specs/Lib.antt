pub mod Units
pub mod Words
pub mod Numbers
pub mod Strings
pub mod Gaps
pub mod Tokens
pub mod Faults
pub mod Laws
