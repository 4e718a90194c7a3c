mod Allowed
mod Begun
pub mod Claims
pub mod ForEver
mod Kept
mod Larger
mod Left
pub mod Listed
mod Settled
mod Told
