pub mod Joins
pub mod Flow
pub mod Kept
pub mod Changes
pub mod ByList
pub mod Turns
pub mod Links
pub mod Sound
mod Groups
pub mod Feeders
pub mod GateLaws
pub mod Acting
pub mod Exits
pub mod Possible
mod Giving
pub mod Rungs
pub mod Scanned
pub mod Values
pub mod Sizes
pub mod Marks
