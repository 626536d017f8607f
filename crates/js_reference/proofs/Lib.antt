pub mod Chains
pub mod Listed
pub mod Naming
pub mod There
pub mod Later
