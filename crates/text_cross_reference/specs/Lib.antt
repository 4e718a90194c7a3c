pub mod Usage
pub mod Uses
