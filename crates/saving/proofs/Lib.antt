pub mod KindTags
pub mod Coding
pub mod WordEntries
pub mod FileEntries
pub mod OutputCall
pub mod ReadCall
pub mod WriteCall
pub mod RoundTrips
