pub mod EntriesOf
pub mod FileOf
