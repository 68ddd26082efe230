pub mod Faces
pub mod inside
