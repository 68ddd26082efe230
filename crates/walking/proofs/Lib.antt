pub mod WidthLaws
pub mod WidthLayouts
pub mod WalkLaws
pub mod ListItems
pub mod Passing
pub mod Zeros
pub mod Walking
