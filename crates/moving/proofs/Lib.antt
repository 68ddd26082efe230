pub mod Threading
pub mod Advancing
pub mod RunLaws
pub mod OneLaws
