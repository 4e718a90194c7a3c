pub mod By
mod Begins
mod Prefixes
