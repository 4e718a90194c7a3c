pub mod Assumed
pub mod Counted
pub mod Inputs
