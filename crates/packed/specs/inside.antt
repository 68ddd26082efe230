pub mod Packed
pub mod Joining
