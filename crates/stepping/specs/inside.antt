pub mod Trio
pub mod Threads
pub mod Running
