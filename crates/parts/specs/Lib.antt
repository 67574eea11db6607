pub mod Boxes
pub mod Limits
pub mod Books
pub mod Moves
