pub mod Words
pub mod Advice
pub mod Steps
