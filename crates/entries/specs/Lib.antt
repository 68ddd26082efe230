pub mod Entry
pub mod inside
