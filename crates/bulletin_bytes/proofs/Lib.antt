pub mod Bulletins
pub mod Shown
pub mod Again
pub mod Writing
pub mod Parts
