pub mod Counting
pub mod Covering
