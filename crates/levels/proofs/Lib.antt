pub mod Sequence
pub mod TrailingZeros
pub mod TopLevel
pub mod Filling
pub mod Call
pub mod Range
