pub mod Determined
pub mod Jumps
pub mod Statements
