pub mod Commuting
pub mod There
pub mod Within
