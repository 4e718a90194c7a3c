pub mod Forms
pub mod Matched
pub mod Rungs
pub mod Standing
pub mod Steps
