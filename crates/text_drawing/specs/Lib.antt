pub mod Marked
pub mod Notes
pub mod Page
pub mod Browser
pub mod Pictures
pub mod Showing
