pub mod Tables
pub mod Sets
pub mod Visits
pub mod Searches
pub mod Levels
pub mod Shutting
pub mod Inputs
