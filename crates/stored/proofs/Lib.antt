pub mod EntryLaws
pub mod Packing
pub mod PartLists
pub mod JoinedLists
pub mod StoredRows
pub mod FillLoop
