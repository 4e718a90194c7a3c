pub mod Ends
pub mod Faults
mod Finding
mod Inputs
