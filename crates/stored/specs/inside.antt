pub mod Store
pub mod PartWords
pub mod Filling
pub mod Adding
