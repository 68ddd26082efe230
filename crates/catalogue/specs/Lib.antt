pub mod Heights
pub mod Catalogue
pub mod CatalogueMeans
pub mod inside
