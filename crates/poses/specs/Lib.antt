pub mod Ends
pub mod Poses
