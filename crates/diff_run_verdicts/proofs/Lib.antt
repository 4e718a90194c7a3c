mod ForEver
mod Listing
pub mod Nothing
