pub mod LineLaws
pub mod Rows
pub mod Bounds
pub mod Faces
