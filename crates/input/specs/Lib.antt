pub mod Counts
pub mod Outcome
