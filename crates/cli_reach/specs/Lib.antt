pub mod Naming
pub mod Asking
pub mod Finding
pub mod Telling
pub mod Reaching
