-- bytes, and the check test by test
pub mod Spelled
pub mod Labels
pub mod Bytes
pub mod Entries
pub mod Limits
pub mod Check
-- there and back: a record, a frame, the frame of a table
pub mod RecordTrip
pub mod FrameTrip
pub mod TableTrip
pub mod Fitting
-- a body outside its limits
pub mod Outside
-- receivers that know no editions
pub mod Editions
-- examples
pub mod Examples
