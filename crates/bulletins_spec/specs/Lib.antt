pub mod State
pub mod Order
pub mod Calls
pub mod History
pub mod Claim
