pub mod Waves
pub mod Lines
pub mod Laws
