pub mod Decimal
pub mod Fields
pub mod Printing
pub mod inside
