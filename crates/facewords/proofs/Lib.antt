pub mod WordSizes
pub mod FirstWord
pub mod WordCoding
pub mod EntryRun
pub mod WordsOf
