pub mod PickLaws
pub mod Looking
