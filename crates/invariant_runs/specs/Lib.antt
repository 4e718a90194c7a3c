pub mod Staying
pub mod Reached
