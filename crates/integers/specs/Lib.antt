pub mod Points
pub mod Space
pub mod Bounds
pub mod Divisors
