pub mod Asking
pub mod Assumed
pub mod AssumedEnding
pub mod Faults
pub mod Listing
pub mod Ordering
pub mod Ending
pub mod Files
