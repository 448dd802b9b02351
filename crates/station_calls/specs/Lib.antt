pub mod Changes
pub mod Station
