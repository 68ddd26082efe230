pub mod Format
pub mod Gauge
pub mod Summary
pub mod inside
