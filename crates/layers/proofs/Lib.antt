pub mod Mirrors
pub mod Swells
pub mod Rooms
