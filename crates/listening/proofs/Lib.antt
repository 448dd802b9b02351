-- what hearing begins with
pub mod OwnPlaces
pub mod OwnFrame
pub mod PlacesLoop
-- what was heard, read from the bytes
pub mod TakingSteps
pub mod EntrySteps
pub mod ActSteps
pub mod Begins
