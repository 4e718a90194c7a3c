pub mod Alike
pub mod Assuming
pub mod Buffers
pub mod Cases
pub mod Traces
