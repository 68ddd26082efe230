pub mod CopyLaws
pub mod PartLaws
pub mod TurnedPart
pub mod JoinedPart
pub mod LoadedPart
pub mod FacingLists
pub mod PartStack
pub mod Standing
