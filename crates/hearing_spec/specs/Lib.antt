pub mod Buffer
pub mod Gathered
pub mod Settled
pub mod StandsFor
pub mod Heeding
pub mod Room
pub mod Promises
