pub mod Filtered
pub mod Satisfying
