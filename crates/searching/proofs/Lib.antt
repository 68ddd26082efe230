pub mod SearchLaws
pub mod CutLaws
pub mod CountLaws
pub mod Passing
