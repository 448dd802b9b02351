pub mod Listing
pub mod Calls
pub mod Remaining
pub mod Whole
