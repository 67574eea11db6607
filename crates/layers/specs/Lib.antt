pub mod Layers
pub mod Swells
pub mod Laws
