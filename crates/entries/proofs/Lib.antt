pub mod Took
pub mod Stacks
pub mod Entries
pub mod KindLaws
pub mod Reading
