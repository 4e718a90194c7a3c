pub mod Addresses
pub mod Declarations
pub mod Drawn
pub mod Integers
