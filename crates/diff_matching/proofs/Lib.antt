pub mod Carries
pub mod Edges
pub mod Pairing
pub mod Ranks
pub mod Running
pub mod Suiting
pub mod Writing
