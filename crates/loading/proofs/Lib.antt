pub mod Written
pub mod LoadedBacks
pub mod Loads
