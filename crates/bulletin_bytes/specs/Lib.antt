pub mod Bulletins
pub mod Shown
