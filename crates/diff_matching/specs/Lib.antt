pub mod Matching
pub mod Runs
pub mod Names
pub mod Suited
pub mod Carried
pub mod Writing
