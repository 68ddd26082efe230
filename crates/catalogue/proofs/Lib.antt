pub mod HeightLaws
pub mod WidthCall
pub mod CatalogueMeans
