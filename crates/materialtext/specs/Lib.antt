pub mod Material
pub mod inside
