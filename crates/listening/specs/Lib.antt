pub mod OwnPlaces
pub mod Listened
pub mod Listening
pub mod Begins
