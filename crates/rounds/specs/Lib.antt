pub mod Frames
pub mod Reported
