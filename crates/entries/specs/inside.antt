pub mod Kinds
pub mod Tracking
