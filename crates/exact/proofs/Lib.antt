pub mod Coordinates
pub mod Quotients
pub mod Ranks
