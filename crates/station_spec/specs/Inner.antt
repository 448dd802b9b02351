-- What the functions inside the engine promise each other. No open call's contract and no theorem
-- about the calls speaks of it.
pub mod Writing
