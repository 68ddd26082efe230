pub mod LevelRange
pub mod Asking
pub mod Calling
pub mod CallNumbers
pub mod Starts
