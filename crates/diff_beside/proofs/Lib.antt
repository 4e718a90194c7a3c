pub mod Moved
pub mod Bounds
pub mod Placed
pub mod WellFormed
