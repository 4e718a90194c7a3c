pub mod Answering
pub mod Over
pub mod Counting
pub mod Shown
pub mod Stepping
pub mod Groups
pub mod Resetting
pub mod Whole
