pub mod Deciding
pub mod Bridge
pub mod Answers
pub mod Lowest
pub mod Forcing
pub mod Forces
pub mod Meaning
pub mod Examples
