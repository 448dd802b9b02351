pub mod Log
pub mod Relay
pub mod EndRule
pub mod Forecast
pub mod Part
pub mod Question
pub mod Inner
