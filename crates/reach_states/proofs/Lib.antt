mod Ageing
mod Knowing
pub mod Splitting
