pub mod Widths
pub mod Walk
pub mod WidthMeans
pub mod inside
