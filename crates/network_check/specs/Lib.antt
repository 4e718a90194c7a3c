pub mod Doing
pub mod Laws
pub mod Runs
