pub mod State
pub mod Calls
pub mod History
pub mod Demand
pub mod Desks
pub mod Replies
pub mod Conflicts
pub mod Inner
