pub mod Arena
pub mod Lazy
pub mod inside
