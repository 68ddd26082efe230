pub mod Listing
pub mod Demand2
pub mod inside
