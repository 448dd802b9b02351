pub mod Pair
pub mod Contest
pub mod Compare
