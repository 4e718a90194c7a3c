pub mod Expected
pub mod Stepping
