-- Facts is what is claimed, and Examples what it comes to on small links. The others are why: first
-- relays and clocks (Relay, Clock), then broadcast numbers (Number, Got, Tally, Bounds), then the
-- end rule (EndRule); Version and Hearing say the same for what is in flight within a round; Prefix
-- and Log are about logs as lists. Know is the end rule by sets without a history, Forecast counts
-- ends, Part compares links of which one has all hearings of the other, and Question is about what
-- has come by a round.
pub mod Clock
pub mod Number
pub mod Got
pub mod Tally
pub mod Bounds
pub mod Relay
pub mod EndRule
pub mod Version
pub mod Hearing
pub mod Prefix
pub mod Know
pub mod Forecast
pub mod Part
pub mod Question
pub mod Log
pub mod Examples
pub mod Facts
