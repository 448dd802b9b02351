pub mod Reading
pub mod Draws
pub mod Script
pub mod Calls
pub mod Whole
