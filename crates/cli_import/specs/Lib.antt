pub mod Reasons
pub mod Lines
pub mod Carrying
