pub mod Assumed
pub mod Warning
