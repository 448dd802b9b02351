pub mod Runs
pub mod Bytes
pub mod Body
pub mod Waiting
pub mod Station
pub mod Group
pub mod Reports
