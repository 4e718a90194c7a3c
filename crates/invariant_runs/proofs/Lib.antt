pub mod Running
pub mod Steps
