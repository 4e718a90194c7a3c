pub mod Views
pub mod About
pub mod Watched
pub mod Expecting
