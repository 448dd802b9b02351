pub mod Contest
pub mod Winner
pub mod Answer
pub mod Inner
