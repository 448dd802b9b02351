pub mod Words
pub mod Record
pub mod Frame
pub mod Calls
pub mod Editions
pub mod Inner
