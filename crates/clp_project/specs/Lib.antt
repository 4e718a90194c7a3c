pub mod Format
pub mod Order
pub mod Project
pub mod RungFault
pub mod Rungs
pub mod Tables
pub mod Hal
