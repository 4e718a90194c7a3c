pub mod Telling
pub mod Likening
pub mod Counted
pub mod Plans
