pub mod Fractions
pub mod Means
pub mod Hulls
pub mod Simplices
pub mod Lowest
