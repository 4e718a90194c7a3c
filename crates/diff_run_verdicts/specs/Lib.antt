pub mod RunVerdicts
pub mod Telling
pub mod Lasting
