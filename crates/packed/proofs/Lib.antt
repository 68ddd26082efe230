pub mod Reading
pub mod StoredLists
pub mod MergeTurns
pub mod Merging
pub mod Places
pub mod Walking
pub mod HeldWords
