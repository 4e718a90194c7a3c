pub mod Helpers
pub mod Parts
pub mod Power
