mod AirSteps
pub mod TurnSteps
