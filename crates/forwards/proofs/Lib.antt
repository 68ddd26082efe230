pub mod Decisions
pub mod LinkLaws
