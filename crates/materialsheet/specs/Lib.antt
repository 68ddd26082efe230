pub mod Sheet
pub mod Promise
pub mod SheetMeans
pub mod inside
