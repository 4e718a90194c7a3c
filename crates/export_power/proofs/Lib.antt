pub mod Back
pub mod Rows
pub mod Trees
