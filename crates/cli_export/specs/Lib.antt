pub mod Lines
pub mod Exporting
