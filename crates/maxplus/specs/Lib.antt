pub mod Read
pub mod inside
