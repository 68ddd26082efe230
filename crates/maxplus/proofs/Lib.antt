pub mod Places
pub mod LowEnd
