pub mod Limits
pub mod Boxes
pub mod Blocks
pub mod Farthests
pub mod Options
