-- when two records are equal
pub mod EqualRecords
-- the three laws of a settled record
pub mod Settled
-- what hearing leaves of a station, and the numbers that stand for it
pub mod Gathering
pub mod Standing
pub mod Heeding
-- one record, the loops over a frame and over a mask, and what comes of them
pub mod FrameLoop
pub mod RecordSteps
pub mod MaskLoop
pub mod Acting
