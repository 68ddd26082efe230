pub mod Decimals
pub mod Lengths
pub mod Appends
pub mod Copies
pub mod Pages
pub mod Numbers
pub mod Dues
pub mod Printings
