pub mod Shares
pub mod Writes
pub mod Counts
pub mod Faults
pub mod Answers
pub mod Levels
pub mod Laws
