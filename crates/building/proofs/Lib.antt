pub mod HookLaws
pub mod PrependLaws
pub mod ClearLaws
