pub mod Saving
pub mod RoundTrips
pub mod inside
