-- rows come on, and when an accepted edit starts
pub mod Progress
pub mod Starting
-- the first rounds of a list of calls, and the theorem
pub mod Rounds
pub mod Delivery
pub mod RowsGoOn
-- examples
pub mod Examples
pub mod TooSoon
