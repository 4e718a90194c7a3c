pub mod Rows
pub mod Cursors
pub mod Buffers
pub mod Leading
