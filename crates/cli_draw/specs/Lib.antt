pub mod Places
pub mod Sentences
pub mod Lines
pub mod Drawing
