pub mod ListWalk
pub mod WordLaws
pub mod ItemLaws
pub mod Heights
pub mod Backwards
