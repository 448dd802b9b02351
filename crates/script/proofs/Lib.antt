pub mod Values
pub mod Rounds
