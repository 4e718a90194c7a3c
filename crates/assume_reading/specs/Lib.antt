pub mod Reading
pub mod Several
pub mod Words
pub mod Whole
