pub mod Sets
pub mod Stands
pub mod MergedRounds
pub mod Replies
