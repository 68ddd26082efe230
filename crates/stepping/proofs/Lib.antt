pub mod MovedLaws
pub mod TrioLaws
pub mod Steps
pub mod Confined
pub mod ThreadLaws
pub mod NewerStep
pub mod OlderStep
