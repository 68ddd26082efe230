pub mod Found
pub mod inside
