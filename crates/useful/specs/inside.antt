pub mod Order
pub mod Narrowest
