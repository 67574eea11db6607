pub mod Turns
pub mod Reaches
pub mod Products
pub mod Sweeps
