pub mod Absent
pub mod Lane
pub mod Queue
pub mod Waiting
