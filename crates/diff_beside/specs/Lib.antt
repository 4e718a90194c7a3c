pub mod Moving
pub mod Fitting
pub mod Standing
