pub mod Acted
pub mod Groups
pub mod Meaning
pub mod Steps
