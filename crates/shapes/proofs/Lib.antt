pub mod RootLaws
pub mod ListCall
pub mod Demand2
