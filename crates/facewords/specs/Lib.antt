pub mod Words
pub mod inside
