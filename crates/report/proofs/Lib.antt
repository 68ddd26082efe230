pub mod Example
pub mod Levelling
pub mod Telling
pub mod Widest
pub mod Whole
