pub mod Words
pub mod Types
pub mod Declarations
