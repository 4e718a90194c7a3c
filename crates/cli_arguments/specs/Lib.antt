pub mod Asking
pub mod Faults
pub mod Parts
