pub mod Levels
pub mod inside
