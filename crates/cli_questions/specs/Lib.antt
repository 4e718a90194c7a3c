pub mod Query
pub mod Ending
pub mod Forms
