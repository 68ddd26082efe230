pub mod Fitting
pub mod Demand3
pub mod Promise
