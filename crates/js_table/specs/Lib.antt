pub mod Indices
pub mod Listing
pub mod Properties
pub mod inner
