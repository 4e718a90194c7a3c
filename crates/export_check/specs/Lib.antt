pub mod Course
pub mod Flags
pub mod Jumps
pub mod Meaning
