pub mod Rules
pub mod GaugeSizes
pub mod inside
