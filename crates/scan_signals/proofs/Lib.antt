mod Timers
pub mod Counters
mod Pulses
mod Bistables
