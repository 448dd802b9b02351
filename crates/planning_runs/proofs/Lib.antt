pub mod Reported
pub mod Forecast
pub mod Merge
pub mod Questions
pub mod Examples
