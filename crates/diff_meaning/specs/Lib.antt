pub mod Counting
pub mod Verdicts
pub mod Witnesses
pub mod Laws
