pub mod HeardChanges
pub mod HeardLengths
pub mod HeardSteps
pub mod Refusals
pub mod Returns
pub mod Station
pub mod HeardCalls
pub mod Written
