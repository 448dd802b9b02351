-- What the functions inside the engine ask of each other. No open call's contract speaks of it, and
-- it does not say what a call gives.
pub mod Shape
