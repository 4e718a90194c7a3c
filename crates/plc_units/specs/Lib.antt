pub mod Projects
pub mod Doing
