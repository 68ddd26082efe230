pub mod Chain
pub mod Built
pub mod Sums
pub mod Carried
pub mod Backs
