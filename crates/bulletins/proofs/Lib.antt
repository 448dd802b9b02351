pub mod Subsets
pub mod Free
pub mod Ordering
pub mod Pushing
pub mod Joining
