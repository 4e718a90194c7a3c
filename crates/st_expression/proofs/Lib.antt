pub mod Chains
pub mod Fronts
pub mod Levels
pub mod Shapes
pub mod Steps
pub mod Uniqueness
