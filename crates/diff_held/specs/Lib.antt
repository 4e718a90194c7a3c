pub mod HeldDifferences
pub mod Assuming
pub mod Cursor
pub mod Refused
pub mod Taking
pub mod Counting
pub mod Merging
