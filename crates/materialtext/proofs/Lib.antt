pub mod Telling
pub mod Whole
pub mod Example
