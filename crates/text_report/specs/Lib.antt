pub mod Adding
pub mod Marks
pub mod Report
