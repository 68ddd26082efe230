pub mod LiftLaws
pub mod Raising
pub mod SettleLaws
pub mod FrontLaws
pub mod Settling
