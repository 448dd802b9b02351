-- Means of proof. No open call's contract and no theorem about the calls speaks of them.
pub mod Total
