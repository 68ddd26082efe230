pub mod Lift
pub mod Settled
pub mod Cached
