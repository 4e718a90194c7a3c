pub mod Onward
pub mod Places
pub mod Ones
pub mod Settings
pub mod Begun
pub mod Kept
pub mod Shorter
