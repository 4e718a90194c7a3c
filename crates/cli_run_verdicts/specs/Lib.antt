pub mod Judged
pub mod Naming
pub mod Saving
pub mod Assuming
pub mod Ending
