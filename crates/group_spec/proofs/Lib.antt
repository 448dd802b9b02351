-- The way to demand 3, in the order in which it is best read.
-- what fresh accepts; every call leaves a group inside its limits
pub mod Setups
pub mod Members
pub mod MembersPost
pub mod FirstRefusal
pub mod MembersRound
pub mod CallSteps
pub mod HistoryInside
pub mod EditionKept
-- accepted posts: in a turn, and over a list of calls
pub mod Takings
pub mod Interleaving
pub mod TurnAccount
pub mod PostsAccounted
-- the simulation: what a record stands for, one record heard, a round heard, a turn, all rounds of
-- a run
pub mod Through
pub mod Run
pub mod Version
pub mod Outcome
pub mod Standing
pub mod HearParts
pub mod HearStep
pub mod RoundHeard
pub mod TurnStep
pub mod Rounds
pub mod Simulation
-- what a run takes and airs
pub mod Begin
pub mod Lists
pub mod Taken
pub mod Counting
pub mod Lanes
pub mod Aired
-- the run of a list of calls, and demand 3
pub mod CallRun
pub mod HistoryRun
pub mod HistoryLists
pub mod FromRun
pub mod DemandThree
-- two desks: order, alternation, fairness, isolation
pub mod AiredOrder
pub mod DeskTurns
pub mod Fairness
pub mod Isolation
pub mod TwoDesks
-- replies stay behind what they reply to: edits by place, over histories, the theorem
pub mod Picked
pub mod EditPlaces
pub mod Continued
pub mod Identities
pub mod Replies
-- no conflicts from fresh
pub mod Conflicts
-- examples
pub mod Computing
pub mod MarkedStatement
pub mod Marked
pub mod RunLines
pub mod RunExamples
pub mod RoundExamples
pub mod ReplyExamples
