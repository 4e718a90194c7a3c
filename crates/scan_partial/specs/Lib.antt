pub mod KeepsValues
pub mod Sizes
pub mod Evaluating
