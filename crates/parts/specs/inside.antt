pub mod Part
pub mod Copying
pub mod Joining
pub mod Building
