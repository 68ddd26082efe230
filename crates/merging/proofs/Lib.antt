pub mod Stepping
pub mod RunsLaws
pub mod MergeLaws
