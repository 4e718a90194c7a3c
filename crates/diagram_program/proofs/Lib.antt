pub mod PlaceLaws
pub mod Ranges
pub mod JoinLaws
pub mod JumpLaws
mod StepLaws
