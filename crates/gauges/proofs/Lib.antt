pub mod FileBytes
pub mod Sizing
