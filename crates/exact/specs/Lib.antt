pub mod Space
pub mod Spots
pub mod Terms
pub mod Finds
pub mod Crossed
pub mod Texts
pub mod Products
