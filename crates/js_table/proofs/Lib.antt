pub mod ElementLemmas
pub mod ListingLemmas
pub mod Places
