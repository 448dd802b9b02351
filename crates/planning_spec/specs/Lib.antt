pub mod LinkLog
pub mod Arrival
pub mod Forecast
pub mod Merge
pub mod Questions
