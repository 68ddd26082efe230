pub mod Runs
pub mod Merge
