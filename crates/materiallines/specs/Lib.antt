pub mod Lines
pub mod inside
