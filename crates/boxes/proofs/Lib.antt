pub mod Reaches
pub mod Walks
pub mod Listings
