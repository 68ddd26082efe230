pub mod Lent
pub mod Questions
pub mod Call
