-- Clocks, numbers of broadcasts, sets without a history, examples: means of proof and of computing.
-- They do not say what an end is. Where a contract counts by them, a theorem says the same by
-- relays alone.
pub mod Inside
pub mod Clock
pub mod Number
pub mod Know
pub mod Ended
pub mod Examples
