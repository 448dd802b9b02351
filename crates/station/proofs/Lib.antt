pub mod SourceSteps
pub mod OwnFrame
pub mod Copied
pub mod HeardBeside
