pub mod Check
pub mod Answer
pub mod Limits
