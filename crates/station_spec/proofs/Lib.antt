-- the lengths of a station's arrays
pub mod Lengths
pub mod Setters
pub mod Shape
-- the limits as facts, and that every call keeps them
pub mod BodyLaws
pub mod LimitsLane
pub mod StationLimits
pub mod LimitsFresh
pub mod LimitsHear
pub mod LimitsHearing
pub mod LimitsSent
pub mod LimitsTurn
pub mod LimitsCalls
pub mod Bodies
-- what a heard record and a turn change, cell by cell and case by case
pub mod HearRecord
pub mod FrameConflicts
pub mod Cells
pub mod Agree
pub mod TurnCells
pub mod TurnLaws
pub mod TurnParts
-- the answers of the calls, and a station's frame
pub mod CallSteps
pub mod WriteSteps
pub mod SentFrame
-- examples
pub mod Computing
pub mod Examples
pub mod RunExamples
