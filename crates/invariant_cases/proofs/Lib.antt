mod PinnedTwice
pub mod Settling
pub mod Values
