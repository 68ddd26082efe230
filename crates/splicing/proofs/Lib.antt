pub mod OpenLaws
pub mod RelinkWords
pub mod RelinkLaws
pub mod ClosingLaws
pub mod Relinking
pub mod Closing
