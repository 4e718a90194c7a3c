pub mod Common
pub mod Marks
pub mod Same
pub mod Reading
pub mod Walking
pub mod Writing
