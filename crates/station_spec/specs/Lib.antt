pub mod Absent
pub mod State
pub mod Limits
pub mod Bodies
pub mod Hearing
pub mod Turn
pub mod Calls
pub mod Inner
