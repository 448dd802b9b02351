pub mod Placed
pub mod Examples
pub mod Columns
pub mod Joined
