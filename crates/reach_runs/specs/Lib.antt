pub mod Asking
pub mod Rhythm
