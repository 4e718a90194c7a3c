pub mod Beginning
pub mod Invariants
pub mod Never
pub mod Pairs
pub mod Removing
