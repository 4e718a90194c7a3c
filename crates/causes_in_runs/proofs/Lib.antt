pub mod Counted
mod Inputs
mod Assigned
mod Coming
mod Cursors
pub mod RunRows
