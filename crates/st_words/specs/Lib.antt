pub mod Words
pub mod Places
pub mod Refusals
pub mod Front
