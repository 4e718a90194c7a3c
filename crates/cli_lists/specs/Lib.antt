pub mod Lists
pub mod Assumed
pub mod AssumedHeld
pub mod AssumedProgress
pub mod AssumedRelevant
pub mod Writing
