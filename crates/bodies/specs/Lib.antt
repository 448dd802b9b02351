pub mod Limits
pub mod Body
pub mod Refusals
