pub mod Rooms
pub mod Pairs
pub mod Signs
pub mod Faces
pub mod Both
pub mod Turns
pub mod Tells
pub mod Lists
