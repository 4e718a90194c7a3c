pub mod Bytes
mod PieceLaws
pub mod Puts
pub mod Sending
pub mod Commas
pub mod Items
pub mod Lines
mod Numbers
pub mod Plain
mod Steps
mod Whole
