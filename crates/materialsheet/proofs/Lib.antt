pub mod PlacedSheet
pub mod SheetCall
pub mod SheetMeans
