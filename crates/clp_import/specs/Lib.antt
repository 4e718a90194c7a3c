pub mod Import
pub mod Refusals
