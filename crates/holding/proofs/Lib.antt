pub mod Following
pub mod Answering
pub mod ReadingWalk
pub mod Holds
