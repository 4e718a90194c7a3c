pub mod Carrying
pub mod Judging
pub mod Keeping
