pub mod Cut
pub mod Walk
