pub mod LineLaws
pub mod SheetFits
pub mod HeldWords
pub mod GaugeLines
pub mod AreaSums
pub mod SheetParts
