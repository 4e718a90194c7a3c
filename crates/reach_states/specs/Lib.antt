pub mod Untimed
pub mod UntimedKept
pub mod Allowing
pub mod UntimedLaws
